-- Why a cell may stand on the disk, and what that says of each image that a crash may leave.
pub mod Reasons
pub mod Proper
pub mod Moments
