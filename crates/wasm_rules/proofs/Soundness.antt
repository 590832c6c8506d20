pub mod Values
pub mod MemoryBytes
pub mod EffectSound
pub mod ControlSound
pub mod CountedSound
pub mod AdministrativeSound
pub mod Beginning
