-- A site that stands: its set-up is the group's, its own row is the book's, and what is lawful there is lawful at
-- every site. Assumes nothing.
use Rattle.std.proofs.Common.{◌≡◌, ℕ, ◌<◌, ◌≤◌, sym, ap, ◌∙◌, arith}
use Rattle.std.proofs.ByRecursion.{all-has, All-weaker}
use Rattle.action.specs.declared.action.Action.{Action}
use Rattle.action.specs.declared.setup.Setup.{Setup}
use Rattle.kind.specs.Meaning.{Meaning}
use Rattle.message.specs.declared.record.Interval.{Interval}
use Rattle.message.specs.Format.{Message, Section}
use Rattle.message.specs.Lawful.{LawfulInterval, LawfulMessage, LawfulSection}
use Rattle.table.specs.View.{View, entry}
use Rattle.runs.specs.Books.{Book}
use Rattle.runs.specs.Runs.{Group}
use Rattle.runs.proofs.Greatest.{greatest_ge}
use Rattle.runs.proofs.Standing.{Account, Reached, Recorded, Site}

-- LAWFUL FOR ONE SET-UP AND ANOTHER OF THE SAME GROUP

module _ (kind : Meaning) (u w : Setup) (groups : u.group ≡ w.group) (sites : u.sites ≡ w.sites) (articles : u.articles ≡ w.articles) where
  lawful_interval_lem : (i : Interval) → LawfulInterval u i → LawfulInterval w i
  lawful_interval_lem i h = record { of_group = omega (arith, h.of_group, sites); forward = h.forward; in_time = h.in_time }

  lawful_section_lem : (s : Section) → LawfulSection kind u s → LawfulSection kind w s
  lawful_section_lem s h = record {
    listed = omega (arith, h.listed, articles);
    some = h.some;
    few = omega (arith, h.few, sites);
    intervals = All-weaker (LawfulInterval u) (LawfulInterval w) lawful_interval_lem s.intervals h.intervals;
    rising = h.rising;
    actions = h.actions;
    ordered = h.ordered;
    counted = h.counted;
  }

  lawful_message : (m : Message) → LawfulMessage kind u m → LawfulMessage kind w m
  lawful_message m h = record {
    of_group = h.of_group ∙ groups;
    of_kind = h.of_kind;
    sent = omega (arith, h.sent, sites);
    some = h.some;
    few = h.few;
    sections = All-weaker (LawfulSection kind u) (LawfulSection kind w) lawful_section_lem m.sections h.sections;
    rising = h.rising;
  }

-- THE SITE

module _ (kind : Meaning) (group : Group) (b : Book) (s : ℕ) (of_group : s < group.sites) (v : View) (site : Site kind group b s v) where
  abbrev setup : Setup
  setup = v.setup

  pub group_is : setup.group ≡ group.number
  group_is = ap (λ (u : Setup). u.group) site.setup_is ∙ (group.agrees s of_group).group_is

  pub sites_are : setup.sites ≡ group.sites
  sites_are = ap (λ (u : Setup). u.sites) site.setup_is ∙ (group.agrees s of_group).sites_are

  pub articles_are : setup.articles ≡ group.articles
  articles_are = ap (λ (u : Setup). u.articles) site.setup_is ∙ (group.agrees s of_group).articles_are

  pub own_is : setup.own ≡ s
  own_is = ap (λ (u : Setup). u.own) site.setup_is ∙ (group.agrees s of_group).own_is

  pub few_articles : group.articles ≤ 64
  few_articles = omega (arith, articles_are, setup.few_articles)

  pub own_entry : (a q : ℕ) → a < group.articles → q < group.sites → entry v a setup.own q ≡ b.reach s a q
  own_entry a q al ql = ap (λ (n : ℕ). entry v a n q) own_is ∙ site.vector a q al ql

  -- no time reached is after the clock
  pub reach_clocked : (a q : ℕ) → a < group.articles → q < group.sites → b.reach s a q ≤ v.clock
  reach_clocked a q al ql = omega (arith, greatest_ge group b s a q al ql, site.clock_is)

  -- nor is any action that the site has
  pub reached_clocked : Account group b → (a : ℕ) → a < group.articles → (x : Action) → Reached b s a x → x.time ≤ v.clock
  reached_clocked l a al x h = omega (arith, h.2, reach_clocked a x.coordinator al (all-has (Recorded group b) b.committed x l.each h.0).coordinated)

  pub lawful_anywhere : (m : Message) → LawfulMessage kind setup m → (z : ℕ) → z < group.sites → LawfulMessage kind (group.setup z) m
  lawful_anywhere m h z zl =
      let there = group.agrees z zl in
      lawful_message kind setup (group.setup z) (group_is ∙ sym there.group_is) (sites_are ∙ sym there.sites_are) (articles_are ∙ sym there.articles_are) m h
