pub mod History
