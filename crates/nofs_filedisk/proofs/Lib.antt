pub mod OnMoving
pub mod OnWindows
pub mod OnFiledisk
