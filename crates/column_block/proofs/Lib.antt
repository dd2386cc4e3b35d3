pub mod OpenLaws
pub mod FaultLaws
