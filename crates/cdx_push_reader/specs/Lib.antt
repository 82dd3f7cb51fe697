pub mod Starting
pub mod Pushed
pub mod PushSteps
pub mod PushAnswers
pub mod Documents
pub mod Sources
pub mod Gathered
