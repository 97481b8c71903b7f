use Rattle.std.proofs.Common.{◌≡◌, ◌+◌, ◌*◌, map}
use Rattle.std.specs.List.{range_with_len, flat_map}
use Rattle.message.specs.Buffer.{overwritten}
use Rattle.message.specs.Format.{interval_bytes}
use Rattle.table.specs.Offers.{offer_interval}
use Rattle.table.specs.View.{bare}
use Rattle.table.proofs.offer.Offer.put_intervals.Given as goal

abbrev pub invariant-loop-site : goal.invariant-loop-site
invariant-loop-site l =
    (l.at ≡ l.start + 10 * l.site) × (l.buffer ≡ overwritten l.initial.buffer l.start (flat_map interval_bytes (map (offer_interval (bare l.state) l.self.peer l.self.article) (range_with_len 0 l.site))))
