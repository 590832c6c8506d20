pub mod FieldLemmas
pub mod HeadLemmas
pub mod LongRecordLemmas
mod TextLemmas
pub mod ContentsLemmas
pub mod ReadLemmas
pub mod StampLemmas
pub mod JournalLemmas
pub mod ReadingLemmas
