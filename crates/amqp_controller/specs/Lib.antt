pub use Rattle.amqp_controller_calls.specs.Sends
pub use Rattle.amqp_controller_calls.specs.Polls
pub use Rattle.amqp_controller_calls.specs.Abandoned
pub use Rattle.amqp_controller_calls.specs.Errors as SendErrors
pub use Rattle.amqp_controller_posting.specs.Errors as PostErrors
pub use Rattle.amqp_controller_posting.specs.Posts
pub use Rattle.amqp_controller_posting.specs.Retirements
pub use Rattle.amqp_controller_transactions.specs.Begun
pub use Rattle.amqp_controller_transactions.specs.Locked
pub use Rattle.amqp_controller_transactions.specs.Declares
pub use Rattle.amqp_controller_transactions.specs.Attaches
pub use Rattle.amqp_controller_transactions.specs.Owned
pub use Rattle.amqp_controller_transactions.specs.Transactions
pub use Rattle.amqp_controller_transactions.specs.Discharges
pub use Rattle.amqp_controller_acquisition.specs.Receivers
pub use Rattle.amqp_controller_acquisition.specs.Acquisitions
pub use Rattle.amqp_controller_acquisition.specs.Ends
