pub mod ExampleLemmas
mod FirstImageLemmas
mod LogSteps
mod MemoryLemmas
mod PictureLemmas
mod AnswerLemmas
mod RewriteLemmas
mod FrontLemmas
mod FolderLemmas
pub mod CallLemmas
pub mod Moments
pub mod RunLemmas
pub mod CopyLemmas
pub mod CountLemmas
