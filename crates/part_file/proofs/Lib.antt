mod Steps
mod ItemLaws
mod VersionLaws
mod FaultLaws
mod HoldLaws
mod ReadLaws
mod BatchLaws
mod FollowedLaws
