-- Laws of the controller's calls.
pub mod Results
pub mod Together
