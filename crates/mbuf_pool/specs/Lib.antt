pub mod Stock
pub mod Ticket
