-- `put_in` meets its contract. Assumes nothing.
use Rattle.std.proofs.Common.{◌≡◌, ◌+◌, ◌-◌, ◌*◌, ◌^◌, ◌<◌, ◌≤◌, length, drop, vec_items, sym, refl, ap, ◌∙◌, subst, arith, w32, SFits, rules}
use borrow.Rule.Slice.PartMut.{put_mid, same_len_mid}
use lib.Seq.{paste}
use Rattle.std.proofs.lemmas.List.{with_items_is}
use Rattle.action.specs.Bytes.{action_bytes}
use Rattle.action.proofs.Round.{action_back}
use Rattle.history.specs.Strips.{Recorded, strip_items}
use Rattle.history.proofs.Places.{recorded_put, rest_put, strip_put}
use Rattle.history.proofs.strip.Strip.put_in.Goals as goal

pub invariant_of-self-clause-recorded : goal.invariant_of-self-clause-recorded
invariant_of-self-clause-recorded c =
    let i = c.args.place in
    let n = c.args.self.now.used in
    let k = i * 16 + 16 - i * 16 in
    let ws = c.deref_mut.result.now in
    let rs = c.copy_from_slice.new.self in
    let moved = c.deref_mut.ensures.value ∙ c.copy_within.ensures.items in
    let written = c.copy_from_slice.ensures.after ∙ c.to_bytes.ensures in
    let back = action_back c.args.action (search rules) (search rules) (search rules) in
    let was = c.args.self.now.recorded in
    let now = recorded_put n i k _ ws rs _ (omega arith) (omega arith) (omega arith) moved written back was in
    let long = same_len_mid (i * 16) k ws rs c.copy_from_slice.ensures.len ∙ c.deref_mut.ensures.len in
    subst (Recorded (n + 1)) (sym (with_items_is c.copy_within.new.self (put_mid (i * 16) k ws rs) long)) now

pub returns : goal.returns
returns c =
    let a = c.args.action in
    let i = c.args.place in
    let n = c.args.self.now.used in
    let k = i * 16 + 16 - i * 16 in
    let xs = vec_items c.args.self.now.bytes in
    let ws = c.deref_mut.result.now in
    let rs = c.copy_from_slice.new.self in
    let time : a.time < 2 ^ 32 = search rules in
    let transaction : a.transaction < 2 ^ 32 = search rules in
    let amount : SFits w32 a.amount = search rules in
    let within : i ≤ n = omega arith in
    let room : n * 16 + 16 ≤ length xs = omega arith in
    let size : k ≡ 16 = omega arith in
    let moved : ws ≡ paste xs (i * 16 + 16) (drop (i * 16) xs) (n * 16 - i * 16) = c.deref_mut.ensures.value ∙ c.copy_within.ensures.items in
    let written : rs ≡ action_bytes a = c.copy_from_slice.ensures.after ∙ c.to_bytes.ensures in
    let long = same_len_mid (i * 16) k ws rs c.copy_from_slice.ensures.len ∙ c.deref_mut.ensures.len in
    let is = with_items_is c.copy_within.new.self (put_mid (i * 16) k ws rs) long in
    record {
      items = ap (strip_items (n + 1)) is ∙ strip_put n i k xs ws rs a within room size moved written (action_back a time transaction amount);
      rest = ap (drop ((n + 1) * 16)) is ∙ rest_put n i k xs ws rs a within room size moved written;
      fixed = refl;
    }
