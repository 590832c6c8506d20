pub mod Pushing
pub mod Keeping
pub mod PushedItems
mod Opened
pub mod Shown
mod NodesAt
mod Fields
mod Counts
pub mod Marks
mod Machines
mod Named
mod Among
mod PathsTold
mod Places
mod FilesWithin
mod WasiStateWithin
mod MachineWithin
mod Whole
mod ExamplesHold
mod RefusalsHold
pub mod HelloWellTyped
mod Children
mod Room
mod Spelled
mod WordLemmas
mod Outermost
mod ShownBounds
pub mod ReachedWellTyped
mod RestoreLemmas
mod ReadLemmas
mod TextReads
mod PartReads
mod FrontReads
mod StepsRead
mod FieldsGiven
mod ProcessImageGiven
mod WholeRead
mod Behind
mod ProgressRead
mod Accepted
mod RestoredWhole
mod ReadWhole
mod LinkedFirst
mod RestoredReached
