pub mod Emitted
pub mod Following
mod ObjectSteps
pub mod OnTheWay
pub mod OneRecording
pub mod Played
pub mod Playing
pub mod Recordings
pub mod WaitingLines
pub mod Joining
pub mod Adding
pub mod Alike
pub mod Failing
pub mod Going
pub mod Ending
pub mod Worked
