pub mod OneInterval
