use Rattle.std.proofs.Common.{◌≡◌, ◌+◌, ◌*◌, ◌<◌, ◌++◌, length, Ok, Err, sym, refl, ap, ◌∙◌, subst, arith}
use Rattle.std.proofs.lemmas.Bool.{ltb-true}
use Rattle.std.specs.List.{flat_map}
use Rattle.std.proofs.lemmas.List.FromFn.{length-map-range_with_len}
use Rattle.std.proofs.lemmas.List.{length-append}
use Rattle.action.specs.Bytes.{action_bytes}
use Rattle.message.specs.Buffer.{overwritten}
use Rattle.message.specs.Format.{header_bytes, interval_bytes, section_bytes}
use Rattle.message.proofs.Buffers.{written_then}
use Rattle.message.proofs.Formats.{length_joined}
use Rattle.table.specs.declared.table_fault.TableFault.TheVariants.{Short}
use Rattle.table.specs.Offers.{Offered, offer_actions, offer_interval, offer_intervals}
use Rattle.table.specs.View.{View}
use Rattle.table.proofs.Offering.{head, header, length_offer, offer_granted, offer_is, offer_short}
use Rattle.table.proofs.Viewed.{view_in}
use Rattle.table.proofs.offer.Offer.write.Goals as goal

pub returns-then-needed-buffer : goal.returns-then-needed-buffer
returns-then-needed-buffer g c =
    let kind = g.K.Kind.means in
    let v = view_in c.store.view_is in
    let p = c.args.self.peer in
    let a = c.args.self.article in
    let listed : a < v.setup.articles = ltb-true a v.setup.articles c.in_ok-check_article.ensures in
    let known : p < v.setup.sites = ltb-true p v.setup.sites c.in_ok-check_site.ensures in
    let counted : c.count-carried.result ≡ length (offer_actions v p a) = subst (λ (w : View). c.count-carried.result ≡ length (offer_actions w p a)) (sym c.store.view_is) c.count-carried.ensures.value in
    subst (λ (v : View). Offered kind v p a c.args.buffer.now (Err (Short (11 + 10 * c.from.result + 16 * c.count-carried.result))) c.args.buffer.now) c.store.view_is (offer_short kind v p a c.args.buffer.now listed known (11 + 10 * c.from.result + 16 * c.count-carried.result) (omega (arith, c.from.ensures, length_offer kind v p a)) (omega arith), refl)

pub returns : goal.returns
returns g c =
    let kind = g.K.Kind.means in
    let v = view_in c.store.view_is in
    let p = c.args.self.peer in
    let a = c.args.self.article in
    let b = c.args.buffer.now in
    let sites = v.setup.sites in
    let listed : a < v.setup.articles = ltb-true a v.setup.articles c.in_ok-check_article.ensures in
    let known : p < v.setup.sites = ltb-true p v.setup.sites c.in_ok-check_site.ensures in
    let counted : c.count-carried.result ≡ length (offer_actions v p a) = subst (λ (w : View). c.count-carried.result ≡ length (offer_actions w p a)) (sym c.store.view_is) c.count-carried.ensures.value in
    let long = length_offer kind v p a in
    let intervals_long : length (flat_map interval_bytes (offer_intervals v p a)) ≡ 10 * sites = length_joined interval_bytes 10 (λ _. refl) (offer_intervals v p a) ∙ ap (λ n. 10 * n) (length-map-range_with_len (offer_interval v p a) 0 sites) in
    let H = header kind v p a in
    let S = head kind v p a in
    let I = flat_map interval_bytes (offer_intervals v p a) in
    let A = flat_map action_bytes (offer_actions v p a) in
    let first : c.emit-at.new.buffer ≡ overwritten b 0 H = c.emit-at.ensures.bytes ∙ ap (λ h. overwritten b 0 (header_bytes h)) c.header-header.ensures in
    let second : c.emit-at-2.new.buffer ≡ overwritten c.emit-at.new.buffer c.emit-at.result S = c.emit-at-2.ensures.bytes ∙ (λ i. overwritten c.emit-at.new.buffer c.emit-at.result (section_bytes (record { article = a; intervals = sym (length-map-range_with_len (offer_interval v p a) 0 sites) i; actions = counted i }))) in
    let end₁ : c.emit-at.result ≡ 6 = c.emit-at.ensures.end in
    let end₂ : c.emit-at-2.result ≡ c.emit-at.result + 5 = c.emit-at-2.ensures.end in
    let end₃ = c.put_intervals-at.ensures.end in
    let end₄ : c.put_actions.result ≡ c.put_intervals-at.result + 16 * length (offer_actions v p a) = c.put_actions.ensures.end ∙ ap (λ (v : View). c.put_intervals-at.result + 16 * length (offer_actions v p a)) (sym c.store.view_is) in
    let put : c.put_actions.new.buffer ≡ overwritten c.put_intervals-at.new.buffer c.put_intervals-at.result A = c.put_actions.ensures.bytes ∙ ap (λ (v : View). overwritten c.put_intervals-at.new.buffer c.put_intervals-at.result (flat_map action_bytes (offer_actions v p a))) (sym c.store.view_is) in
    let two = written_then b _ _ H S 0 c.emit-at.result (omega arith) (omega arith) first second in
    let three = written_then b _ _ (H ++ S) I 0 c.emit-at-2.result (omega arith) (omega arith) two c.put_intervals-at.ensures.bytes in
    let four = written_then b _ _ ((H ++ S) ++ I) A 0 c.put_intervals-at.result (omega (arith, length-append (H ++ S) I)) (omega arith) three put in
    subst (λ (v : View). Offered kind v p a b (Ok c.put_actions.result) c.put_actions.new.buffer) c.store.view_is (
      offer_granted kind v p a b listed known (omega arith),
      omega arith,
      four ∙ ap (overwritten b 0) (sym (offer_is kind v p a)),
    )
