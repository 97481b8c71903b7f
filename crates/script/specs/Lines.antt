-- Which lines there are. A line is a letter and a body: `M`, `O`, `T`, `F` or `P`, and then fields with
-- nothing between or after them. Each field is one digit, but for the sign and the amount of `M`. Assumes
-- nothing.
use Rattle.std.specs.Prelude.{◌≡◌, ℕ, ◌+◌, ◌-◌, ◌*◌, ◌<◌, Bool, true, false, cond, ◌&&◌, ◌||◌, List, length, drop, ℤ, pos, neg_ℤ, Some, None, Option, MatchOption, ◌==◌, nat_le, nat_lt, slice_index}
use Rattle.script.specs.declared.command.Command.{Command}
use Rattle.script.specs.declared.command.Command.TheVariants.{Move, Offer, Take, Figure, OpenItem}

-- the byte at a place, counted from 0
abbrev pub place : List ℕ → ℕ → ℕ
place bytes i = slice_index bytes i

abbrev pub value : ℕ → ℕ
value b = b - 48

-- a digit whose value is below a bound, 10 at the most
abbrev pub is_digit_below : ℕ → ℕ → Bool
is_digit_below bound b = nat_le 48 b && nat_lt (value b) bound

-- one of the bytes `0` to `9`
abbrev pub is_digit : ℕ → Bool
is_digit b = is_digit_below 10 b

-- a site that can act: `0`, `1` or `2`
abbrev pub is_site : ℕ → Bool
is_site b = is_digit_below 3 b

-- `+` or `-`
abbrev pub is_sign : ℕ → Bool
is_sign b = b == 43 || b == 45

abbrev pub are_digits : ℕ → ℕ → ℕ → Bool
are_digits b c d = is_digit b && (is_digit c && is_digit d)

abbrev pub hundreds : ℕ → ℕ → ℕ → ℕ
hundreds b c d = 100 * value b + 10 * value c + value d

-- below 0 after a `-`
abbrev pub signed_by : ℕ → ℕ → ℤ
signed_by sign n = cond (sign == 45) (neg_ℤ (pos n)) (pos n)

-- site, article, sign, six digits, slot
abbrev pub is_move : List ℕ → Bool
is_move body =
    (length body == 10) &&
    (is_site (place body 0) && (is_digit (place body 1) && (is_sign (place body 2) &&
    (are_digits (place body 3) (place body 4) (place body 5) &&
    (are_digits (place body 6) (place body 7) (place body 8) && is_digit (place body 9))))))

abbrev pub amount_of : List ℕ → ℤ
amount_of body =
    signed_by (place body 2)
    (1000 * hundreds (place body 3) (place body 4) (place body 5) + hundreds (place body 6) (place body 7) (place body 8))

abbrev pub move_of : List ℕ → Option Command
move_of body =
    cond (is_move body)
    (Some (Move (value (place body 0)) (value (place body 1)) (amount_of body) (value (place body 9))))
    None

-- site, peer, article, slot
abbrev pub is_offer : List ℕ → Bool
is_offer body =
    length body == 4 &&
    (is_site (place body 0) && (is_digit (place body 1) && (is_digit (place body 2) && is_digit (place body 3))))

abbrev pub offer_of : List ℕ → Option Command
offer_of body =
    cond (is_offer body)
    (Some (Offer (value (place body 0)) (value (place body 1)) (value (place body 2)) (value (place body 3))))
    None

-- site, slot
abbrev pub is_take : List ℕ → Bool
is_take body = length body == 2 && (is_site (place body 0) && is_digit (place body 1))

abbrev pub take_of : List ℕ → Option Command
take_of body = cond (is_take body) (Some (Take (value (place body 0)) (value (place body 1)))) None

-- site, article
abbrev pub is_figure : List ℕ → Bool
is_figure body = length body == 2 && (is_site (place body 0) && is_digit (place body 1))

abbrev pub figure_of : List ℕ → Option Command
figure_of body = cond (is_figure body) (Some (Figure (value (place body 0)) (value (place body 1)))) None

-- site, peer, article
abbrev pub is_open_item : List ℕ → Bool
is_open_item body =
    length body == 3 && (is_site (place body 0) && (is_digit (place body 1) && is_digit (place body 2)))

abbrev pub open_item_of : List ℕ → Option Command
open_item_of body =
    cond (is_open_item body)
    (Some (OpenItem (value (place body 0)) (value (place body 1)) (value (place body 2))))
    None

abbrev pub command_of : ℕ → List ℕ → Option Command
command_of letter body =
    cond (letter == 77) (move_of body)
    (cond (letter == 79) (offer_of body)
    (cond (letter == 84) (take_of body)
    (cond (letter == 70) (figure_of body)
    (cond (letter == 80) (open_item_of body) None))))

-- the command that a line writes; none where it has no known form, as a line of no bytes
abbrev pub command : List ℕ → Option Command
command line = command_of (place line 0) (drop 1 line)

-- the site that acts
abbrev pub site_of : Command → ℕ
site_of (Move site article amount slot) = site
site_of (Offer site peer article slot) = site
site_of (Take site slot) = site
site_of (Figure site article) = site
site_of (OpenItem site peer article) = site

-- a command's site is one of the three, and its slot one of the ten
abbrev pub Placed : Command → Type 0
Placed (Move site article amount slot) = (site < 3) × (slot < 10)
Placed (Offer site peer article slot) = (site < 3) × (slot < 10)
Placed (Take site slot) = (site < 3) × (slot < 10)
Placed (Figure site article) = site < 3
Placed (OpenItem site peer article) = site < 3

-- what reading one field answers

abbrev pub DigitBelow : ℕ → ℕ → Option ℕ → Type 0
DigitBelow bound b r =
    MatchOption r (is_digit_below bound b ≡ false)
    (λ d. (is_digit_below bound b ≡ true) × (d ≡ value b) × (d < bound))

abbrev pub Hundreds : ℕ → ℕ → ℕ → Option ℕ → Type 0
Hundreds b c d r =
    MatchOption r (are_digits b c d ≡ false)
    (λ n. (are_digits b c d ≡ true) × (n ≡ hundreds b c d) × (n < 1000))

abbrev pub Sign : ℕ → ℕ → Option ℤ → Type 0
Sign b n r = MatchOption r (is_sign b ≡ false) (λ z. (is_sign b ≡ true) × (z ≡ signed_by b n))
