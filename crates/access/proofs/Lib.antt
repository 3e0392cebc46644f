-- Laws of the sectors, of the plan and of the act of an access.
pub mod Sectors
pub mod Plans
pub mod PlanTests
pub mod Lines
pub mod Acting
pub mod Changes
pub mod Telling
pub mod Offering
pub mod Hits
