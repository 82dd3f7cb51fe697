pub mod Basics
pub mod Literals
mod JsonRows
mod TextRows
pub mod JsonBack
pub mod XmlBack
pub mod XmlLaw
pub mod DecimalTexts
pub mod BillLaw
pub mod HeldKept
pub mod Shape
pub mod Passed
pub mod KeptTwice
pub mod Groups
mod KeepRows
mod RoadRows
mod XmlRows
pub mod RecordRows
mod RuleRows
pub mod SameTrip
pub mod NoFloats
pub mod Clear
pub mod BillRead
pub mod Sound
pub mod KeptOf
pub mod TrippedOf
pub mod Commute
pub mod Alike
pub mod BareTwice
pub mod RoadAfter
pub mod Stated
pub mod Nesting
mod DeepRows
pub mod ReadOf
pub mod ReadOfXml
pub mod RoadJoin
pub mod Written
pub mod Unwritten
pub mod RoadSettle
pub mod ViewTexts
pub mod EventTexts
pub mod FaultPlaces
pub mod Local
pub mod DroppedRead
pub mod DroppedLaw
pub mod DroppedFull
pub mod DroppedEmpty
mod DroppedRows
mod OldNameRows
pub mod PlainNames
pub mod EarlyBalance
pub mod EarlyFaults
pub mod EarlyLaws
pub mod EarlyRoot
pub mod EarlyEnds
pub mod EarlyStated
pub mod EarlyClosed
mod EarlyRows
pub mod EarlySoon
pub mod SoonLaws
