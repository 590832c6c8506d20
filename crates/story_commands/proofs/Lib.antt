pub mod ScriptLemmas
pub mod StoryLemmas
pub mod SweepLemmas
pub mod TellingLemmas
