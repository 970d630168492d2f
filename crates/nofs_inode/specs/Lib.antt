pub mod Beside
pub mod InodeRecords
pub mod RecordLaws
pub mod OtherRecords
