pub mod Judged
pub mod Lines
pub mod RecordingView
pub mod Replays
