pub mod Inside
pub mod PlanForm
pub mod PlanView
pub mod Previewed
