use Rattle.std.proofs.Common.{◌≡◌, ◌*◌, map, length, sym, refl, ap, ◌∙◌, arith}
use Rattle.std.specs.List.{range_with_len, flat_map}
use Rattle.std.proofs.lemmas.List.FromFn.{length-map-range_with_len, map-range_with_len_more}
use Rattle.message.specs.Buffer.{overwritten}
use Rattle.message.specs.Format.{interval_bytes}
use Rattle.message.proofs.Formats.{length_joined, written_more}
use Rattle.table.specs.Offers.{offer_interval}
use Rattle.table.specs.View.{bare}
use Rattle.table.proofs.offer.Offer.put_intervals.Goals as goal

pub loop-site-preserved : goal.loop-site-preserved
loop-site-preserved c =
    let f = offer_interval (bare c.args.state.now) c.args.self.peer c.args.self.article in
    let site = c.loop-site.site in
    let long : length (flat_map interval_bytes (map f (range_with_len 0 site))) ≡ 10 * site = length_joined interval_bytes 10 (λ _. refl) (map f (range_with_len 0 site)) ∙ ap (λ n. 10 * n) (length-map-range_with_len f 0 site) in
    let put : c.emit-at.new.buffer ≡ overwritten c.loop-site.buffer c.loop-site.at (interval_bytes (f site)) = c.emit-at.ensures.bytes ∙ ap (λ i. overwritten c.loop-site.buffer c.loop-site.at (interval_bytes i)) c.interval.ensures in (
      omega (arith, c.emit-at.ensures.end),
      written_more interval_bytes c.args.buffer.now c.loop-site.buffer c.emit-at.new.buffer c.args.start c.loop-site.at (map f (range_with_len 0 site)) (f site) (omega arith) (omega arith) c.loop-site.invariant.1 put ∙ ap (λ l. overwritten c.args.buffer.now c.args.start (flat_map interval_bytes l)) (sym (map-range_with_len_more f 0 site site (omega arith))),
    )
