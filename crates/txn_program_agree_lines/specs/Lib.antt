pub mod EventLines
