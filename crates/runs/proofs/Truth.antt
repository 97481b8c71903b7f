-- What the tables believe and what was written is so, and the book enters what messages say. Assumes nothing.
use Rattle.std.proofs.Common.{ℕ, ◌<◌, ◌≤◌, List, Ok, arith}
use Rattle.std.proofs.ByRecursion.{all-has}
use Rattle.kind.specs.Meaning.{Meaning}
use Rattle.table.specs.View.{View}
use Rattle.runs.specs.Books.{book}
use Rattle.runs.specs.Events.{Event, at, wrote}
use Rattle.runs.specs.Events.Call.{Takes}
use Rattle.runs.specs.Laws.{BelievesNoMore, EntersMessages, LearnsFromMessages, NoSiteAhead, TellsTheTruth, TrueOrNothing}
use Rattle.runs.specs.Runs.{Group}
use Rattle.runs.proofs.Standing.{Absorbed, Standing}
use Rattle.runs.proofs.Taking.{times_read}

module _ (kind : Meaning) (group : Group) (events : List Event) (views : ℕ → View) (st : Standing kind group events views) where
  pub believes_no_more : BelievesNoMore group views
  believes_no_more s a z q sl al zl ql = omega (arith, (st.sites s sl).believed a z q al zl ql, (st.sites z zl).vector a q al ql)

  pub no_site_ahead : NoSiteAhead group views
  no_site_ahead s a q sl al ql = omega (arith, (st.sites s sl).vector a q al ql, st.account.no_more s a q sl al ql, (st.sites q ql).vector a q al ql)

  pub tells_the_truth : TellsTheTruth kind group events views
  tells_the_truth event had = all-has (λ (event : Event). TrueOrNothing kind group (book group events) views event.site (wrote event.call)) events event st.told had

  pub learns_from_messages : LearnsFromMessages kind group events views
  learns_from_messages s n bytes had = (all-has (λ (event : Event). (event.site < group.sites) × Absorbed kind group event.site (views event.site) event.call) events (at s (Takes bytes (Ok n))) st.absorbed had).1

  pub enters_messages : kind.number ≤ 255 → EntersMessages kind group events
  enters_messages small s n bytes had =
      let now = all-has (λ (event : Event). (event.site < group.sites) × Absorbed kind group event.site (views event.site) event.call) events (at s (Takes bytes (Ok n))) st.absorbed had in
      let m = now.1.0 in
      let sent = now.1.1 in
      (m, sent, times_read kind small (group.setup s) m (sent.lawful s now.0) bytes sent.is)
