pub mod Commands
pub mod ErrorLines
pub mod Internal
pub mod Laws
pub mod Lines
pub mod Reports
pub mod Sessions
