use Rattle.std.proofs.Common.{ap}
use Rattle.kind.specs.Meanings.{flags, on_hand, price}
use Rattle.c_api.specs.Call.{kind_of}
use Rattle.c_api.proofs.Answering.{answered_for}
use Rattle.c_api.proofs.actions_for.Goals as goal

pub returns-in-1 : goal.returns-in-1
returns-in-1 c = answered_for on_hand c.in_ok-setup.setup (ap kind_of c.in-1.is) c.in_ok-setup.ensures c.actions_of.ensures

pub returns-in-2 : goal.returns-in-2
returns-in-2 c = answered_for flags c.in_ok-setup.setup (ap kind_of c.in-2.is) c.in_ok-setup.ensures c.actions_of-in-2.ensures

pub returns-in-3 : goal.returns-in-3
returns-in-3 c = answered_for price c.in_ok-setup.setup (ap kind_of c.in-3.is) c.in_ok-setup.ensures c.actions_of-in-3.ensures
