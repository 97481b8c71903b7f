use Rattle.message.proofs.Once.{refused_once}
use Rattle.message.proofs.Verdicts.{messages_unique, not_refused, scan_accepted, scan_accepts, scan_refused}
use Rattle.message.proofs.reader.check.Goals as goal

pub returns : goal.returns
returns g c =
    let kind = g.K.Kind.means in
    let small = g.met.K.Kind.number_fits in
    let setup = c.args.setup in
    let bytes = c.args.bytes.now in
    let r = c.scan.result in
    record {
      accepted = scan_accepted kind setup bytes (λ i. (c.type_inv.bytes i).fits) r c.scan.ensures;
      accepts = scan_accepts kind setup small bytes (λ i. (c.type_inv.bytes i).fits) r c.scan.ensures;
      unique = messages_unique kind setup small bytes;
      refused = scan_refused kind setup bytes (λ i. (c.type_inv.bytes i).fits) r c.scan.ensures;
      once = refused_once kind setup bytes;
      not_both = not_refused kind setup small bytes;
    }
