-- What a command leaves of its site's table and of the slots.
use Rattle.std.proofs.Common.{◌≡◌, ℕ, ◌<◌, List, [], length, get_or, set, sym, ap, ◌∙◌, subst}
use Rattle.std.proofs.lemmas.List.{get_or_default}
use Rattle.kind.specs.Meaning.{Meaning}
use Rattle.table.specs.View.{View}
use Rattle.script.specs.declared.command.Command.{Command}
use Rattle.script.specs.Acts.{Outcome, Reply}
use Rattle.script.specs.Desk.{ActsAt, SiteTurn, site_turn}

-- a command that writes into slot k
pub settled_in : (slots : List (List ℕ)) (slot k : ℕ) (none now_held : List ℕ) (f : List ℕ → Outcome) (after : View) (a : Reply) → k ≡ slot → slot < length slots → record { table = after; slot = now_held; answer = a } ≡ f (get_or slots k none) → record { table = after; slots = set slots k now_held; answer = a } ≡ site_turn slots slot (f (get_or slots slot []))
settled_in slots slot k none now_held f after a same within e =
    let got : get_or slots k none ≡ get_or slots slot [] = ap (λ n. get_or slots n none) same ∙ get_or_default slots slot none [] within in
    (λ i. record { table = after; slots = set slots (same i) now_held; answer = a }) ∙ ap (site_turn slots slot) (e ∙ ap f got)

-- a command under its variant's name
pub as_named : (kind : Meaning) (v : View) (slots : List (List ℕ)) (c named : Command) (t : SiteTurn) → c ≡ named → ActsAt kind v slots named t → ActsAt kind v slots c t
as_named kind v slots c named t is acts = subst (λ k. ActsAt kind v slots k t) (sym is) acts
