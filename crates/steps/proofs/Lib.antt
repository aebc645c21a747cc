pub mod Answered
pub mod Taking
pub mod Admitted
pub mod Announcing
pub mod Receiving
pub mod Awarding
