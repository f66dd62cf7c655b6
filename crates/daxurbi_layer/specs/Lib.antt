pub mod Answering
pub mod Handing
pub mod Hindering
pub mod Lasting
pub mod Refusing
