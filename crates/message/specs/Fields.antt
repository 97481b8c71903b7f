-- Which records their bytes can hold. Assumes nothing.
use Rattle.std.specs.Prelude.{◌^◌, ◌<◌, FitsSigned}
use Rattle.std.specs.Int.{w32}
use Rattle.action.specs.declared.action.Action.{Action}
use Rattle.message.specs.declared.record.Header.{Header}
use Rattle.message.specs.declared.record.Interval.{Interval}
use Rattle.message.specs.declared.record.SectionHead.{SectionHead}
use Rattle.message.specs.declared.record.Record.{Record}
use Rattle.message.specs.declared.record.Record.TheVariants as RecordKinds

pub record HeaderFits (h : Header) : Type 0 where
  pub group : h.group < 65536
  pub kind : h.kind < 256
  pub sender : h.sender < 256
  pub sections : h.sections < 256

pub record SectionFits (s : SectionHead) : Type 0 where
  pub article : s.article < 256
  pub intervals : s.intervals < 256
  pub actions : s.actions < 65536

pub record IntervalFits (i : Interval) : Type 0 where
  pub site : i.site < 256
  pub from : i.from < 2 ^ 32
  pub to : i.to < 2 ^ 32

pub record ActionFits (x : Action) : Type 0 where
  pub coordinator : x.coordinator < 256
  pub time : x.time < 2 ^ 32
  pub transaction : x.transaction < 2 ^ 32
  pub article : x.article < 256
  pub operation : x.operation < 256
  pub amount : FitsSigned w32 x.amount

-- each field fits the bytes that it is written in
abbrev pub Fitting : Record → Type 0
Fitting (RecordKinds.Header h) = HeaderFits h
Fitting (RecordKinds.Section s) = SectionFits s
Fitting (RecordKinds.Interval i) = IntervalFits i
Fitting (RecordKinds.Action x) = ActionFits x
