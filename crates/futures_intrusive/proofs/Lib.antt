pub mod Given
pub mod SharedStreams
pub mod StateStreams
