-- every grammar reads what it spells, and a module is read exactly where its bytes are a spelling
mod Lawful
mod NumbersLawful
mod SignedLawful
mod BinaryLawful
pub mod Decoding
-- nested code and flat bodies
pub mod Nests
pub mod WellNested
pub mod Typed
-- typed code leaves what is below its operands
pub mod Below
-- more steps change nothing of a run that has ended
pub mod Longer
-- worked examples
mod Samples
mod ReadExamples
mod TypingExamples
mod NumberExamples
mod RunExamples
