pub mod PlanRuns
pub mod Parts
