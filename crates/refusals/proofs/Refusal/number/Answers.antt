-- `refusals::Refusal::number` meets its contract: each arm returns the number of its refusal.
use mathlib.Core.Path.{sym, ap}
use Rattle.refusals.specs.Refusals.{number_of}
use Rattle.refusals.proofs.Refusal.number.Goals as goal

pub returns-in-WrongM : goal.returns-in-WrongM
returns-in-WrongM c = sym (ap number_of c.in-WrongM.is)

pub returns-in-StripeLength : goal.returns-in-StripeLength
returns-in-StripeLength c = sym (ap number_of c.in-StripeLength.is)

pub returns-in-BenchLength : goal.returns-in-BenchLength
returns-in-BenchLength c = sym (ap number_of c.in-BenchLength.is)

pub returns-in-Ambiguous : goal.returns-in-Ambiguous
returns-in-Ambiguous c = sym (ap number_of c.in-Ambiguous.is)

pub returns-in-Contradicted : goal.returns-in-Contradicted
returns-in-Contradicted c = sym (ap number_of c.in-Contradicted.is)

pub returns-in-Unmendable : goal.returns-in-Unmendable
returns-in-Unmendable c = sym (ap number_of c.in-Unmendable.is)

pub returns-in-NoSuchColumn : goal.returns-in-NoSuchColumn
returns-in-NoSuchColumn c = sym (ap number_of c.in-NoSuchColumn.is)

pub returns-in-Malformed : goal.returns-in-Malformed
returns-in-Malformed c = sym (ap number_of c.in-Malformed.is)

pub returns-in-StrayColumn : goal.returns-in-StrayColumn
returns-in-StrayColumn c = sym (ap number_of c.in-StrayColumn.is)

pub returns-in-TooLong : goal.returns-in-TooLong
returns-in-TooLong c = sym (ap number_of c.in-TooLong.is)

pub returns-in-NoSuchRow : goal.returns-in-NoSuchRow
returns-in-NoSuchRow c = sym (ap number_of c.in-NoSuchRow.is)

pub returns-in-WrongK : goal.returns-in-WrongK
returns-in-WrongK c = sym (ap number_of c.in-WrongK.is)

pub returns-in-WrongB : goal.returns-in-WrongB
returns-in-WrongB c = sym (ap number_of c.in-WrongB.is)

pub returns-in-CellLength : goal.returns-in-CellLength
returns-in-CellLength c = sym (ap number_of c.in-CellLength.is)

pub returns-in-WrongLists : goal.returns-in-WrongLists
returns-in-WrongLists c = sym (ap number_of c.in-WrongLists.is)

pub returns-in-ShortBuffer : goal.returns-in-ShortBuffer
returns-in-ShortBuffer c = sym (ap number_of c.in-ShortBuffer.is)

pub returns-in-LyingMap : goal.returns-in-LyingMap
returns-in-LyingMap c = sym (ap number_of c.in-LyingMap.is)
