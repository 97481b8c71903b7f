use Rattle.std.proofs.Common.{◌≡◌, ℕ, true, false, Ok, count_by, sym, refl, ◌∙◌, subst, arith}
use Rattle.message.specs.Reading.{is_action}
use Rattle.message.specs.Scanning.{Begun, Scanned}
use Rattle.message.proofs.Steps.{begun_none, count_more, read_all, record_size}
use Rattle.message.proofs.reader.scan.Goals as goal

pub loop-found-init : goal.loop-found-init
loop-found-init g c =
    let kind = g.K.Kind.means in
    let reader = c.new-reader.result in
    let bytes = c.args.bytes.now in
    let start = begun_none kind reader.setup bytes (λ i. (c.type_inv.bytes i).fits) in
    let e = c.new-reader.ensures in (
      refl,
      e.bytes,
      omega arith,
      subst (λ p. (b : Begun kind reader.setup bytes reader.at p) × (◌≡◌ {A = ℕ} 0 (count_by is_action b.0))) (sym e.progress) (subst (λ (n : ℕ). (b : Begun kind reader.setup bytes n _) × (◌≡◌ {A = ℕ} 0 (count_by is_action b.0))) (sym e.at) (start, refl)),
    )

pub loop-found-preserved-then-is_action : goal.loop-found-preserved-then-is_action
loop-found-preserved-then-is_action g c =
    let reader = c.loop-found.reader in
    let inv = c.loop-found.invariant in
    let f = c.in-Some.found in
    let next = rw c.in-Some.is at c.in_ok-found.ensures.does in (
      c.next.ensures.setup ∙ inv.0,
      c.next.ensures.bytes ∙ inv.1,
      omega (arith, next.2, record_size f.«record»),
      count_more g.K.Kind.means _ _ (λ i. (c.type_inv.bytes i).fits) _ inv.0 _ inv.1 _ _ _ _ f _ inv.3 next true c.if-is_action.ensures,
    )

pub loop-found-preserved : goal.loop-found-preserved
loop-found-preserved g c =
    let reader = c.loop-found.reader in
    let inv = c.loop-found.invariant in
    let f = c.in-Some.found in
    let next = rw c.in-Some.is at c.in_ok-found.ensures.does in (
      c.next.ensures.setup ∙ inv.0,
      c.next.ensures.bytes ∙ inv.1,
      omega (arith, next.2),
      count_more g.K.Kind.means _ _ (λ i. (c.type_inv.bytes i).fits) _ inv.0 _ inv.1 _ _ _ _ f _ inv.3 next false c.if-is_action.ensures,
    )

pub returns : goal.returns
returns g c =
    let kind = g.K.Kind.means in
    let reader = c.loop-found.reader in
    let inv = c.loop-found.invariant in
    let bytes = c.args.bytes.now in
    let next = rw c.in_default.is at c.in_ok-found.ensures.does in
    subst (λ s. Scanned kind s bytes (Ok c.loop-found.actions)) c.new-reader.ensures.setup
    (reader.progress, reader.at, inv.3.0, read_all kind _ bytes (λ i. (c.type_inv.bytes i).fits) reader.setup inv.0 reader.bytes.now inv.1 reader.at _ reader.progress _ next, inv.3.1)
