pub mod Polls
pub mod Sending
pub mod Receiving
pub mod OneCall
pub mod Calls
pub mod Answers
pub mod SenderWire
pub mod ReceiverWire
