pub mod FollowLaws
pub mod NotedLaws
