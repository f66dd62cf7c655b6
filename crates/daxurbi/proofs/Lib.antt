mod AsBox
mod Sent
