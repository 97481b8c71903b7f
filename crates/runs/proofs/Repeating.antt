-- A message that a site has taken before changes nothing there. Assumes nothing.
use Rattle.std.proofs.Common.{◌≡◌, ℕ, ◌<◌, ◌≤◌, max, Bool, true, false, cond, eqb, List, [], ◌∷◌, length, ℤ, Ok, Err, fold, filter, sym, refl, ap, ◌∙◌, subst, arith}
use Rattle.std.specs.List.{ContainsAt as Has, AllByRecursion}
use Rattle.std.proofs.ByRecursion.{all-has, All-weaker}
use Rattle.std.proofs.lemmas.Bool.{eqb-true, le-ltb}
use Rattle.action.specs.declared.action.Action.{Action}
use Rattle.action.specs.declared.setup.Setup.{Setup}
use Rattle.action.specs.Order.{placed}
use Rattle.action.proofs.Members.{all_from_has, has_kept_by_parts, kept_by_none}
use Rattle.kind.specs.Meaning.{Meaning}
use Rattle.kind.specs.Working.{on, working}
use Rattle.message.specs.declared.record.Interval.{Interval}
use Rattle.message.specs.Format.{Message, carried, told_intervals}
use Rattle.message.specs.Lawful.{Carries, LawfulMessage}
use Rattle.message.proofs.Carried.{carried_within}
use Rattle.message.proofs.Verdicts.{messages_unique}
use Rattle.table.specs.Sound.{Sound}
use Rattle.table.specs.Taking.{is_new, news, taken, taken_history, taken_row}
use Rattle.row.specs.Passes.{raised_by}
use Rattle.table.specs.View.{View, entry, row}
use Rattle.row.specs.Entries.{at, each_row, raised}
use Rattle.table.proofs.Greatest.{greatest_from, greatest_le}
use Rattle.row.proofs.RowLaws.{by_rows, raised_within}
use Rattle.runs.specs.Events.{Event}
use Rattle.runs.specs.Events.Call.{Takes}
use Rattle.runs.specs.Laws.{Credits, RepeatsChangeNothing}
use Rattle.runs.specs.Runs.{Group}
use Rattle.runs.proofs.Sites.{own_is}
use Rattle.runs.proofs.Standing.{Absorbed, Standing}

-- intervals that two rows of entries have reached raise neither
told_again : (own sender : ℕ) (known : List (List ℕ)) (hs : List (ℕ × Interval)) → AllByRecursion (λ h. (h.1.to ≤ at known own h.1.site) × (h.1.to ≤ at known sender h.1.site)) hs → fold (raised_by own sender) known hs ≡ known
told_again own sender known [] all = refl
told_again own sender known (h ∷ hs) all =
    let first : raised known own h.1.site h.1.to ≡ known = raised_within known own h.1.site h.1.to all.0.0 in
    let second : raised known sender h.1.site h.1.to ≡ known = raised_within known sender h.1.site h.1.to all.0.1 in
    ap (λ (k : List (List ℕ)). fold (raised_by own sender) k hs) (ap (λ (k : List (List ℕ)). raised k sender h.1.site h.1.to) first ∙ second) ∙ told_again own sender known hs all.1

module _ (kind : Meaning) (v : View) (sound : Sound kind v) (m : Message) (lawful : LawfulMessage kind v.setup m) (here : Credits v v.setup.own m) (there : Credits v m.sender m) where
  abbrev own : ℕ
  own = v.setup.own

  reached : (z : ℕ) → Credits v z m → (a : ℕ) (i : Interval) → Has (told_intervals m) (a, i) → i.to ≤ entry v a z i.site
  reached z credits a i h = all-has (λ (h : ℕ × Interval). h.1.to ≤ entry v h.0 z h.1.site) (told_intervals m) (a, i) credits h

  -- each action that it carries is there
  pub nothing_new : news v m ≡ []
  nothing_new =
      kept_by_none (is_new v) (carried m) (All-weaker (λ x. (i : Interval) × Has (told_intervals m) (x.article, i) × Carries i x) (λ x. is_new v x ≡ false) (λ x h.
      let i : Interval = h.0 in
      let up_to : x.time ≤ entry v x.article own i.site = omega (arith, h.2.2, reached own here x.article i h.1) in
      le-ltb (entry v x.article own x.coordinator) x.time (subst (λ (c : ℕ). x.time ≤ entry v x.article own c) h.2.0 up_to)) (carried m) (carried_within kind v.setup m lawful))

  same_history : taken_history v m ≡ v.history
  same_history = ap (fold placed v.history) nothing_new

  same_clock : fold (λ t (h : ℕ × Interval). max t h.1.to) v.clock (told_intervals m) ≡ v.clock
  same_clock =
      let to : ℕ × Interval → ℕ = λ h. h.1.to in
      let within = All-weaker (λ (h : ℕ × Interval). h.1.to ≤ entry v h.0 own h.1.site) (λ (h : ℕ × Interval). h.1.to ≤ v.clock) (λ h k. omega (arith, k, sound.clocked h.0 h.1.site)) (told_intervals m) here in
      omega (arith, greatest_le to v.clock v.clock (told_intervals m) (omega arith) within, greatest_from to v.clock (told_intervals m))

  same_known : (a : ℕ) → fold (raised_by own m.sender) (row v a).known (filter (λ h. eqb h.0 a) (told_intervals m)) ≡ (row v a).known
  same_known a =
      let about = filter (λ (h : ℕ × Interval). eqb h.0 a) (told_intervals m) in
      told_again own m.sender (row v a).known about (all_from_has (λ h. (h.1.to ≤ entry v a own h.1.site) × (h.1.to ≤ entry v a m.sender h.1.site)) about (λ h k.
      let parts = has_kept_by_parts (λ (h : ℕ × Interval). eqb h.0 a) (told_intervals m) h k in
      let is : h.0 ≡ a = eqb-true h.0 a parts.1 in
      (subst (λ (b : ℕ). h.1.to ≤ entry v b own h.1.site) is (reached own here h.0 h.1 parts.0), subst (λ (b : ℕ). h.1.to ≤ entry v b m.sender h.1.site) is (reached m.sender there h.0 h.1 parts.0))))

  same_kept : (a : ℕ) → a < 64 → (taken_row kind v m a (row v a)).kept ≡ (row v a).kept
  same_kept a lt = (λ i. by_kind_at kind.commutes (same_history i) (nothing_new i)) ∙ by_kind kind.commutes
    where
      by_kind_at : Bool → List Action → List Action → ℤ
      by_kind_at b history new = cond b (working kind.steps (row v a).kept (on a new)) (working kind.steps (row v a).base (on a history))

      by_kind : (b : Bool) → by_kind_at b v.history [] ≡ (row v a).kept
      by_kind true = refl
      by_kind false = sym (sound.worked a lt)

  same_rows : each_row (taken_row kind v m) 0 v.rows ≡ v.rows
  same_rows =
      sym (by_rows (taken_row kind v m) v.rows v.rows refl (λ a lt.
      let kept = same_kept a (omega (arith, sound.each_article)) in
      sym (λ i. record (row v a) { kept = kept i; known = same_known a i })))

  pub taken_again : taken kind v m ≡ v
  taken_again = λ i. record v { clock = same_clock i; rows = same_rows i; history = same_history i }

-- THE LAW

module _ (kind : Meaning) (small : kind.number ≤ 255) (group : Group) (events : List Event) (views : ℕ → View) (st : Standing kind group events views) where
  pub repeats : RepeatsChangeNothing kind group events views
  repeats s bytes before had (Err e) w took = (took.1, λ n is. let z : ◌≡◌ {A = ℕ} 0 1 = cc in absurd (omega arith))
  repeats s bytes before had (Ok n) w (shut, (m, lawful, is, passes, count, left)) =
      let now = all-has (λ (event : Event). (event.site < group.sites) × Absorbed kind group event.site (views event.site) event.call) events (record { site = s; call = Takes bytes (Ok before) }) st.absorbed had in
      let v : View = views s in
      let site = st.sites s now.0 in
      let known : Message = now.1.0 in
      let lawful_here : LawfulMessage kind v.setup known = subst (λ (u : Setup). LawfulMessage kind u known) (sym site.setup_is) (now.1.1.lawful s now.0) in
      let same : known ≡ m = messages_unique kind v.setup small bytes known m lawful_here lawful now.1.1.is is in
      let here : Credits v v.setup.own m = subst (λ (k : Message). Credits v v.setup.own k) same (subst (λ (z : ℕ). Credits v z known) (sym (own_is kind group _ s now.0 v site)) now.1.2) in
      let there : Credits v m.sender m = subst (λ (k : Message). Credits v k.sender k) same now.1.3 in
      (left ∙ taken_again kind v site.sound m lawful here there, λ k e. let none = nothing_new kind v site.sound m lawful here there in let same_count : n ≡ k = cc in omega (arith, same_count, count, ap length none))
