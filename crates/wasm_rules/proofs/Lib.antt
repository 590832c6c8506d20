pub mod TypedShape
pub mod OneSequence
pub mod OneProgram
pub mod OneRun
pub mod ExamplesHold
pub mod Heights
pub mod Soundness
pub mod OneStore
