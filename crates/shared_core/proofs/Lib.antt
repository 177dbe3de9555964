pub mod TypedPayloads
pub mod Frames
pub mod Views
pub mod DecodedFrames
