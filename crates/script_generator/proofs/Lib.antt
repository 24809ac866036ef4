-- The lemmas of the crate, file by file.
pub mod CommandLemmas
pub mod DrawLemmas
pub mod ScriptLemmas
pub mod StepLemmas
pub mod TextLemmas
