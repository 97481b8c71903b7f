-- What the check answers for a set-up that was made is the call's answer.
use Rattle.std.proofs.Common.{◌≡◌, ℕ, List, ℤ, Some, Ok}
use Rattle.action.specs.declared.setup.Setup.{Setup}
use Rattle.action.specs.Lawful.{Made}
use Rattle.kind.specs.Meaning.{Meaning}
use Rattle.c_api.specs.Call.{Answered, answered, Checked, kind_of}

pub answered_for : {bytes : List ℕ} {group kind sites articles : ℕ} {r : ℤ} (meaning : Meaning) (setup : Setup) → kind_of kind ≡ Some meaning → Made group sites 0 articles (Ok setup) → Checked meaning setup bytes r → Answered bytes group kind sites articles r
answered_for meaning setup known made checked =
    answered meaning known (record { setup = setup; of_group = made.1; of_sites = made.2; of_articles = made.4; checked = checked })
