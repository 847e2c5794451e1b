pub mod Ends
pub mod Kinds
pub mod KindLaws
pub mod SharedStreams
pub mod Blanks
pub mod Readers
pub mod StateStreams
