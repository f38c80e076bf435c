pub mod Packing
pub mod Form
pub mod Lawful
pub mod Reading
pub mod Promises
pub mod Mirror
