pub mod LaunchOrder
