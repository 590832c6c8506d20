pub mod PackedLemmas
pub mod RunLemmas
pub mod RecordLemmas
pub mod SpelledLemmas
pub mod HeldLemmas
mod BarrierLemmas
mod ExampleLemmas
mod FilledLemmas
mod LaterLemmas
