-- List answers as the machine does.
pub mod Search
pub mod Lines
pub mod Answers
