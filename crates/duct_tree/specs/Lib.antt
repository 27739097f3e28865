pub mod ActionCounts
pub mod EffectView
pub mod ActionListView
pub mod NodeView
