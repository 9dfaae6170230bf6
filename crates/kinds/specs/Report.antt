-- Document 01's table of reports, and document 02's after it: the number of each.
use Rattle.std.specs.Prelude.{ℕ}
use Rattle.kinds.specs.declared.Report.{Report}
use Rattle.kinds.specs.declared.Report.TheVariants.{Success, BadImage, BadUser, BadTime, ClockNotLater}
use Rattle.kinds.specs.declared.Report.TheVariants.{NotManager, BadKey, BadCount, BadRoom, Damaged, NoSuchBlock}
use Rattle.kinds.specs.declared.Report.TheVariants.{NotOwner, NoSpace, NoSeries, BadTag, SequenceTwice}

abbrev pub number_of : Report → ℕ
number_of Success = 0
number_of BadImage = 1
number_of BadUser = 2
number_of BadTime = 3
number_of ClockNotLater = 4
number_of NotManager = 5
number_of BadKey = 6
number_of BadCount = 7
number_of BadRoom = 8
number_of Damaged = 9
number_of NoSuchBlock = 10
number_of NotOwner = 11
number_of NoSpace = 12
number_of NoSeries = 13
number_of BadTag = 14
number_of SequenceTwice = 15
