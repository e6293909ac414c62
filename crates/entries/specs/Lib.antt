pub mod Ends
pub mod OpenNodes
pub mod Polls
pub mod Queues
pub mod Shows
pub mod Singles
pub mod Spans
pub mod Sums
