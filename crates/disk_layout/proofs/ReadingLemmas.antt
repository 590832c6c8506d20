pub mod SpellingLemmas
pub mod ConfigLemmas
pub mod HeldLemmas
pub mod WrittenLemmas
