mod Rising
mod InSlots
mod Spelled
mod Rooms
mod Bags
pub mod Answers
pub mod Numbers
mod Moving
mod Passing
mod Pushing
mod Begun
mod Ends
mod Settling
mod WholeReading
mod Turning
mod Calling
mod RouteRuns
mod Forwards
