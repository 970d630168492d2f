pub mod FormatRun
pub mod RaiseRun
pub mod Rows
